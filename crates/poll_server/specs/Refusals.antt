-- Why a `poll` run has no outcomes.
use Rattle.event_kernel.specs.declared.kernel.KernelFault.{KernelFault}
use Rattle.event_kernel.specs.declared.kernel.KernelFault.TheVariants as kernel
use Rattle.poll_server.specs.declared.fault.PollFault.{PollFault}
use Rattle.poll_server.specs.declared.fault.PollFault.TheVariants as fault

-- the refusal of the kernel as one of `poll`
abbrev pub poll_refusal : KernelFault → PollFault
poll_refusal (kernel.TooManyJobs n) = fault.TooManyJobs n
poll_refusal kernel.NoMemory = fault.NoMemory

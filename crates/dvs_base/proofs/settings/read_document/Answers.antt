use Rattle.std.proofs.Common.{◌≡◌, Bool, true, false, if◌then◌else◌, ℕ, List, Some, None, Option, refl}
use Rattle.std.specs.Str.{IsUtf8, is_utf8}
use Rattle.std.proofs.lemmas.Str.{is_utf8-from_IsUtf8, IsUtf8-from_is_utf8}
use Rattle.std.proofs.lemmas.Result.{IfOk-weaker, IfErr-at_err}
use Rattle.toml.specs.Data.{Members}
use Rattle.toml.specs.View.{table_view}
use Rattle.toml.specs.Parse.{parse_document}
use Rattle.dvs_base.specs.Settings.{document_of}
use Rattle.dvs_base.specs.declared.settings.DocumentFault.TheVariants.{NotToml}
use Rattle.dvs_base.proofs.MappedErrors.{map_err-IfOk, map_err-Err}
use Rattle.dvs_base.proofs.settings.read_document.Goals as goal

known : (bytes : List ℕ) (ms : Members) → IsUtf8 bytes → parse_document bytes ≡ Some ms → document_of bytes ≡ Some ms
known bytes ms u p = rw (is_utf8-from_IsUtf8 bytes u) p

by_test : (b : Bool) (parsed : Option Members) → (b ≡ true → parsed ≡ None) → (if b then parsed else None) ≡ None
by_test true parsed h = h refl
by_test false parsed h = refl

refused : (bytes : List ℕ) → (IsUtf8 bytes → parse_document bytes ≡ None) → document_of bytes ≡ None
refused bytes h = by_test (is_utf8 bytes) (parse_document bytes) (λ t. h (IsUtf8-from_is_utf8 bytes t))

pub returns-clause-document : goal.returns-clause-document
returns-clause-document c =
    let bytes = c.args.bytes.now in
    map_err-IfOk c.table_from_slice.result c.map_err.result (λ t. document_of bytes ≡ Some (table_view t)) _ c.map_err.ensures.cases c.map_err.ensures.variant
    (IfOk-weaker c.table_from_slice.result _ _ (λ t h. known bytes _ h.0 h.1) c.table_from_slice.ensures.ok)

pub returns-clause-refused : goal.returns-clause-refused
returns-clause-refused c same =
    let from = map_err-Err c.table_from_slice.result c.map_err.result _ NotToml c.map_err.ensures.cases same in
    refused c.args.bytes.now (IfErr-at_err _ from.1 c.table_from_slice.ensures.refused (from.2 refl))

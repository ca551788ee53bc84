pub mod Reserved
pub mod ReserveLaws

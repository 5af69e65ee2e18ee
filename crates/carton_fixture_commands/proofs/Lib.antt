pub mod Good
pub mod NoteLines
pub mod OneClaim

pub mod Commands
mod Places

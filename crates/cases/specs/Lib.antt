pub mod Stop
pub mod Lines

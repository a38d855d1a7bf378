pub mod Written
pub mod Memories
pub mod RowsWritten

pub mod AtMostMoved
pub mod SomeMoved

pub mod RangeMarks

pub mod RangeCharts

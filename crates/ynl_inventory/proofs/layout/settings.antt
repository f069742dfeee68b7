pub mod Cells
pub mod StopsMean
pub mod MaximaMean
pub mod SharesMean

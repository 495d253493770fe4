pub mod Glue
pub mod Tests
pub mod Results
pub mod Seen

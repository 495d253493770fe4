pub mod Contradictions
pub mod Met
pub mod Results

-- What the contracts cite.
pub mod Results

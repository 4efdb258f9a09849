pub mod PutIn
pub mod Ways
pub mod Laws
pub mod inner

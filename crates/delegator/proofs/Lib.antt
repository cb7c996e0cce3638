pub mod Laws
pub mod Handle

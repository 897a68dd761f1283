pub mod AuthData

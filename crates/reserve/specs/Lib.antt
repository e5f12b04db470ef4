pub mod Reserve

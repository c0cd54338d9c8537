pub mod StoreFaults

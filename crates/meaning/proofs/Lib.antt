-- the laws that rest on a table's number or on the key order, and what follows from them
pub mod Numbers
pub mod Laws
pub mod Search

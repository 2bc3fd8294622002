-- The order that is derived on keys is the key order.
pub mod Order

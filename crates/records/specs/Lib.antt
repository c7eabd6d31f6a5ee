-- Records: a length, a kind and a content.
pub mod Heads

pub mod Wish

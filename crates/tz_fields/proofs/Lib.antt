mod Blank
mod Indexed
mod Order
mod Reading

mod Ring
mod Steps
mod Backs

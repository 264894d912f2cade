mod Alone
mod Exchanging
mod Named
mod OneRegister
mod Private
mod Undoes
mod Unwritten

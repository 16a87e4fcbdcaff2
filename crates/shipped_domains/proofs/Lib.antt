mod Grown
mod Members
mod Parts

-- Laws that belong to no one function.
mod Laying
mod Marking
mod Settling

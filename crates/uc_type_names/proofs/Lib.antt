mod Forms
mod EnumForms
mod Repeats
mod BlockTurns
mod Calls
mod Products

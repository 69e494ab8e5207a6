mod Forms
mod Selected
mod Elsewhere
mod Joined
mod Turns
mod Arms
mod Products

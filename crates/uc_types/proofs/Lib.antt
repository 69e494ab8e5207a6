mod Checked
mod OneModule

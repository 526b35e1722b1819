-- names in messages
mod ShownNames

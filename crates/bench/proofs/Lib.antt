mod Handing
mod Storing

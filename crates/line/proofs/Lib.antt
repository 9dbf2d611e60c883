mod Carried
mod Begun
mod Handing

mod Alike
mod Twos

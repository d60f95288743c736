mod Alike
mod Leaving

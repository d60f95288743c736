mod Blocks
mod Lanes

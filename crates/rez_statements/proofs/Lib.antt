mod Cited
mod Lasts
mod Fills

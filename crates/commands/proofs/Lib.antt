mod Cited
mod Asked
mod Checked

mod Cited

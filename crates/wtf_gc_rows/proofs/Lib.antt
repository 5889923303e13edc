mod Readying

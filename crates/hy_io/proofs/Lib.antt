mod LeftBytes

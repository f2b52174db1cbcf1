pub mod TapeEncodeLaws

pub mod EncodeLaws

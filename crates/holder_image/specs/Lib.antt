-- The register's image: its layout and its bytes.
pub mod Layout
pub mod Bytes

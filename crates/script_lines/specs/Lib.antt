-- What the contracts cite. Fields, Forms and Script are the document's words; Search and Steps say what the smaller functions do.
pub mod Search
pub mod Fields
pub mod Forms
pub mod Script
pub mod Steps

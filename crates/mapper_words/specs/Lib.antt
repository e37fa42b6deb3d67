-- What the contracts cite beside the walk and the mapping.
pub mod Heights

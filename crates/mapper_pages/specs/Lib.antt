-- What the contracts cite of the pages that a mapping asks for.
pub mod Pages

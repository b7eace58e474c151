-- Notes on shaders that drivers read otherwise: docs/DRIVERS.md.
pub mod NotedShapes
pub mod Stepping
pub mod Noted

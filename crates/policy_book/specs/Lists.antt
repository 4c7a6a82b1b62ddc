-- Lists in the order of their elements' names.
pub use Rattle.slp_tree.specs.Lists.{named, has, put, without, changed, AreByName, itself}

-- What the fields of a line are written as, and texts that were begun.
use Rattle.std.specs.Prelude.{◌≡◌, ℕ, List, length, take}
use Rattle.std.specs.Fmt.{decimal}
use Rattle.site_types.specs.Ids.{id_text}
use Rattle.nbstl_reports.specs.declared.line.Field.{Field}
use Rattle.nbstl_reports.specs.declared.line.Field.TheVariants.{Text, Number, Id, Copies}
use Rattle.nbstl_reports.specs.ImageLines.{copies_text}

abbrev pub field_text : Field → List ℕ
field_text (Text text) = text.now
field_text (Number number) = decimal number
field_text (Id id) = id_text id.now
field_text (Copies copies) = copies_text copies.now

-- what stood in a text stands at its front
abbrev pub StartsWith : List ℕ → List ℕ → Type 0
StartsWith old new = take (length old) new ≡ old

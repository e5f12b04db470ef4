-- One text after another is the two in one, and none is no change.
use mathlib.Core.Path.{◌≡◌, refl}
use mathlib.Core.List.{[]}
pub use borrow.Author.Tests.{lt-ltb, le-ltb}
use Rattle.text.specs.Page.{Page, laid}
pub use Rattle.text.proofs.Pages.{laid-append}
pub use Rattle.input.proofs.Shown.{laid-counts, laid-text, rendered-counts, rendered-text}

pub laid-none : (p : Page) → laid p [] ≡ p
unfolding laid
laid-none p = refl

pub ruleset pages = (laid-append, laid-none, lt-ltb, le-ltb)

pub ruleset shown = (laid-counts, laid-text, rendered-text)

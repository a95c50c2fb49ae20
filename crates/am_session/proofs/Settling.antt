-- A store that is settled keeps the same.
use Rattle.std.proofs.Common.{◌≡◌, List, Option, sym, subst}
use Rattle.am_types.specs.declared.Hash.{Hash}
use Rattle.am_cache.specs.Kept as cache
use Rattle.am_store.specs.Kept.{Kept}
use Rattle.am_session.specs.Views.{AreTexts, AreHeads}

pub still_right : (old new : Kept) (views : cache.Kept) (heads : Option (List Hash)) → new ≡ old → AreTexts old.closed views × AreHeads old.closed heads → AreTexts new.closed views × AreHeads new.closed heads
still_right old new views heads e is = subst (λ (k : Kept). AreTexts k.closed views × AreHeads k.closed heads) (sym e) is

-- Which borrowed objects and keys can be copied.
--     IsObjectAllowed o     the actor that o names, if it names one, has as many bytes as an actor may have
--     IsKeyAllowed k        the same of a key
use Rattle.std.specs.Prelude.{⊤}
use Rattle.am_types.specs.Actors.{IsActor}
use Rattle.am_types.specs.Records.{ObjId, Root, Made, Key, Name, Head, Elem}

abbrev pub IsObjectAllowed : ObjId → Type 0
IsObjectAllowed Root = ⊤
IsObjectAllowed (Made id) = IsActor id.actor

abbrev pub IsKeyAllowed : Key → Type 0
IsKeyAllowed (Name n) = ⊤
IsKeyAllowed Head = ⊤
IsKeyAllowed (Elem id) = IsActor id.actor

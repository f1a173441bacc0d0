-- Each status by its number.
use Rattle.std.proofs.Common.{◌≡◌, ℕ, nat_eq, refl, sym, ap, ◌∙◌}
use Rattle.std.specs.Prelude.{if◌then◌else◌}
use Rattle.terrain_main.specs.declared.status.Status.{Status}
use Rattle.terrain_main.specs.declared.status.Status.TheVariants.{Ok, Usage, BadDocument, ReadFault, WriteFault, Memory, TooLarge, BadSurface, DoorFault, Spent, LongLine, Cut}
use Rattle.terrain_main.specs.Commands.{code_of}

-- the status of a number that is one's
abbrev status_of : ℕ → Status
status_of n =
    if nat_eq n 2 then Usage
    else if nat_eq n 3 then BadDocument
    else if nat_eq n 4 then ReadFault
    else if nat_eq n 5 then WriteFault
    else if nat_eq n 6 then Memory
    else if nat_eq n 7 then TooLarge
    else if nat_eq n 8 then BadSurface
    else if nat_eq n 9 then DoorFault
    else if nat_eq n 10 then Spent
    else if nat_eq n 11 then LongLine
    else if nat_eq n 12 then Cut
    else Ok

told_apart : (s : Status) → status_of (code_of s) ≡ s
told_apart Ok = refl
told_apart Usage = refl
told_apart BadDocument = refl
told_apart ReadFault = refl
told_apart WriteFault = refl
told_apart Memory = refl
told_apart TooLarge = refl
told_apart BadSurface = refl
told_apart DoorFault = refl
told_apart Spent = refl
told_apart LongLine = refl
told_apart Cut = refl

pub by_code : (s t : Status) → code_of s ≡ code_of t → s ≡ t
by_code s t e = sym (told_apart s) ∙ ap status_of e ∙ told_apart t

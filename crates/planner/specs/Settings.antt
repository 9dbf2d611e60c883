-- The bounds of a line's settings, and what is refused in which order.
use Rattle.std.specs.Prelude.{ℕ, Bool, cond, ◌&&◌, Ok, Err, Result, nat_le}
use Rattle.frame.specs.Bounds.{M}
use Rattle.planner.specs.declared.settings.Settings as declared
use Rattle.planner.specs.declared.settings.SettingsRefusal.{SettingsRefusal}
use Rattle.planner.specs.declared.settings.SettingsRefusal.TheVariants as refusal

-- the values of settings
pub record Chosen : Type 0 where
  pub identifier : ℕ
  pub gap : ℕ
  pub limit : ℕ
  pub admits : Bool

abbrev pub values : declared.Settings → Chosen
values s = record { identifier = s.identifier.value; gap = s.gap; limit = s.limit.value; admits = s.admits }

abbrev pub chosen : Result declared.Settings SettingsRefusal → Result Chosen SettingsRefusal
chosen (Ok s) = Ok (values s)
chosen (Err why) = Err why

abbrev pub between : ℕ → ℕ → ℕ → Bool
between low high n = nat_le low n && nat_le n high

-- the identifier is looked at first
abbrev pub chosen_of : ℕ → ℕ → ℕ → Bool → Result Chosen SettingsRefusal
chosen_of identifier gap limit admits =
    cond (between 1 4294967295 identifier)
    (cond (between 1 86400 gap && between 1 M limit)
    (Ok (record { identifier = identifier; gap = gap; limit = limit; admits = admits })) (Err refusal.GapOrLimit))
    (Err refusal.Identifier)

abbrev pub refusal_number : SettingsRefusal → ℕ
refusal_number refusal.Identifier = 11
refusal_number refusal.GapOrLimit = 12

-- A line over empty transports is fresh.
use Rattle.std.proofs.Common.{◌≡◌, [], ap, ◌∙◌}
use Rattle.line.specs.Starting.{starts}
use Rattle.planner.specs.Settings.{values}
use Rattle.planner.specs.declared.settings.Settings.{Settings}
use Rattle.protocol.specs.Lines.{Line, Fresh, Valid}
use Rattle.taker.specs.Steps.{Page}
use Rattle.transport.specs.Meaning.{Frames}

-- settings are within bounds by their type
valid : (s : Settings) → Valid (values s)
valid s =
    record {
      identifier = (s.identifier.low, s.identifier.high);
      gap = s.some;
      limit = (s.limit.low, s.limit.high);
    }

pub fresh :
    (s : Settings) (L : Line) (out back : Frames) (page : Page) → L ≡ starts (values s) out back page →
    out ≡ [] → back ≡ [] → Fresh L
fresh s L out back page e x y =
    record {
      settings = values s;
      valid = valid s;
      planner = ap (λ (l : Line). l.planner) e;
      office = ap (λ (l : Line). l.office) e;
      out = ap (λ (l : Line). l.out) e ∙ x;
      back = ap (λ (l : Line). l.back) e ∙ y;
    }

-- The lights of a text, and its first fault.
use Rattle.std.specs.Prelude.{◌≡◌, ℕ, List, filter_map, flat_map, sum_by, Option, Some, None, option_map}
use Rattle.lc_num.specs.Faults.{Fault}
use Rattle.lc_num.specs.declared.channels.Power.{Power}
use Rattle.lc_words.specs.Words.{stream_word}
use Rattle.lc_scan.specs.Lines.{Line}
use Rattle.lc_scan.specs.Fields.{fields}
use Rattle.lc_scan.specs.Spoken.{spoken}
use Rattle.lc_scan.specs.Faults as faults
use Rattle.lc_light.specs.FaultKinds.{kind_number}
use Rattle.lc_light.specs.LightLine.{kind_of, source_of}
use Rattle.lc_light.specs.Sources.{areas, count, lights_of}
use Rattle.lc_light.specs.declared.area.Area.{Area}
use Rattle.lc_light.specs.declared.lights.Lights.{Lights}
use Rattle.lc_light.specs.declared.lights.Oriented.{Oriented}
use Rattle.lc_light.specs.declared.source.Source.{Source}
use Rattle.lc_light.specs.declared.stop.LightStop.{LightStop}
use Rattle.lc_light.specs.declared.stop.LightStop.TheVariants as stop

-- the sources of lines without a fault
abbrev pub sources : List Line → List Source
sources ls = filter_map (λ l. source_of (fields l.bytes)) ls

-- a line is judged by itself and the list of lines before it, whose lights are counted
abbrev pub fault_of : List Line → Line → Option ℕ
fault_of before l = option_map kind_number (kind_of (sum_by count (sources before)) (fields l.bytes))

-- the fault of the first faulty line of a text
unfoldable pub fault_in : List ℕ → Option Fault
fault_in text = faults.fault_in fault_of text

-- the lights of a text without a fault; the samples of its area lights take the words of stream 3 of the seed
unfoldable pub lights : List ℕ → ℕ → Lights
lights text seed = lights_of (stream_word seed 3) (sources (spoken text))

-- the area lights of a text without a fault
abbrev pub area_lights : List ℕ → List Area
area_lights text = flat_map areas (sources (spoken text))

-- in a channel, the oriented lights of a text without a fault have together what its area lights have
abbrev pub HaveAsAreas : (Power → ℕ) → Type 0
HaveAsAreas channel =
    (text : List ℕ) (seed : ℕ) → fault_in text ≡ None
    → sum_by (λ (light : Oriented). channel light.power) (lights text seed).oriented
    ≡ sum_by (λ (area : Area). channel area.power) (area_lights text)

-- a fault is the first one; want of memory is free
abbrev pub IsStop : LightStop → Option Fault → Type 0
IsStop stop.Memory fault = Unit {0}
IsStop (stop.Fault line kind) fault = fault ≡ Some (record { line = line; kind = kind })

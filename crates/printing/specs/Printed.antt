-- How names and values are printed.
use Rattle.std.specs.Prelude.{ℕ, Bool, ◌==◌, List, [], ◌∷◌, ◌++◌, codes, if◌then◌else◌}
use Rattle.std.specs.Fmt.{signed_decimal}
use Rattle.std.specs.List.{flat_map}
use Rattle.flume_value.specs.declared.value.Value.{Value, Value-F, fold-Value}

-- a byte of a text as it stands between quotes: LF, tab, CR, `\` and `"` by their escapes, any
-- other as it is
abbrev pub printed_byte : ℕ → List ℕ
printed_byte byte =
    if byte == 10 then codes "\\n"
    else if byte == 9 then codes "\\t"
    else if byte == 13 then codes "\\r"
    else if byte == 92 then codes "\\\\"
    else if byte == 34 then codes "\\\""
    else byte ∷ []

-- a text in quotes
abbrev pub quoted : List ℕ → List ℕ
quoted text = codes "\"" ++ (flat_map printed_byte text ++ codes "\"")

-- texts with a comma and a space between them
abbrev pub listed : {X : Type 0} → (X → List ℕ) → List X → List ℕ
listed print [] = []
listed print (x ∷ xs) = print x ++ flat_map (λ y. codes ", " ++ print y) xs

abbrev pub truth : Bool → List ℕ
truth answer = if answer then codes "true" else codes "false"

-- one level of a value, where print prints its parts
abbrev pub layer_printed : {X : Type 0} → (X → List ℕ) → Value-F X → List ℕ
layer_printed print (Value-F.Int n) = signed_decimal n
layer_printed print (Value-F.Bool answer) = truth answer
layer_printed print (Value-F.Text text) = quoted text
layer_printed print (Value-F.List members) = codes "[" ++ (listed print members ++ codes "]")
layer_printed print (Value-F.Rec parts) = codes "(" ++ (listed print parts ++ codes ")")
layer_printed print (Value-F.Left part) = codes "left(" ++ (print part ++ codes ")")
layer_printed print (Value-F.Right part) = codes "right(" ++ (print part ++ codes ")")
layer_printed print (Value-F.Wide n) = signed_decimal n

-- a value as it is printed
abbrev pub printed : Value → List ℕ
printed = fold-Value (List ℕ) (layer_printed (λ text. text))

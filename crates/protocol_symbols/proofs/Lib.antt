mod KeptValues
mod Numbered

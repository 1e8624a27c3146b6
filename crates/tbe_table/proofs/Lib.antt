mod Lens
